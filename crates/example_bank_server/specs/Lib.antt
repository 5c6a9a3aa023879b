pub mod Items
pub mod Lines
pub mod Turns
pub mod Inner
pub mod Laws
pub mod Lives
pub mod Books
