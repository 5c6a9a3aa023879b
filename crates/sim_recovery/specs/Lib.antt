pub mod Steps
pub mod Farthest
pub mod Recoveries
pub mod Tables
pub mod Inner
