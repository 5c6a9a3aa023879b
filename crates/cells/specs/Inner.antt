pub mod Begun
pub mod Steps
pub mod Sending
