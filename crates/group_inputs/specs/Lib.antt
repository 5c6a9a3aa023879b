pub mod Handings
pub mod Events
