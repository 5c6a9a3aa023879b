pub mod Growing
pub mod Runs
pub mod Rows
pub mod Sending
