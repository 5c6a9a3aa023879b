pub mod OneFrame
pub mod OneMessage
pub mod Sending
pub mod SomeMessage
