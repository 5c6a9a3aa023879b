pub mod Grids
pub mod Heads
pub mod Inner
