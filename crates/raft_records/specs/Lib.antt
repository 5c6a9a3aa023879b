pub mod Records
pub mod Starts
pub mod Remembering
