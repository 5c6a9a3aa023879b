pub mod Works
pub mod Laws
pub mod Inner
