pub mod Handing
pub mod Telling
pub mod Books
pub mod Lives
