pub mod Answering
pub mod Sending
pub mod Turns
pub mod Members
pub mod Sent
pub mod Places
