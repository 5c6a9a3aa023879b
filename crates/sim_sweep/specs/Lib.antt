pub mod Rows
pub mod Summaries
pub mod Tables
pub mod Inner
