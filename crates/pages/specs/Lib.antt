pub mod Rows
pub mod Positions
pub mod Runs
pub mod Copies
pub mod Inner
