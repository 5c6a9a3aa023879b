pub mod Inner
pub mod Memory
