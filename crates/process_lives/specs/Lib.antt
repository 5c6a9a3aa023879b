pub mod Lives
pub mod Joined
pub mod Servers
pub mod Groups
