pub mod Closing
pub mod Inner
