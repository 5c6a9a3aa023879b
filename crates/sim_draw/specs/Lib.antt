pub mod Inner
pub mod Pictures
