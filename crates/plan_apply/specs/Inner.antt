pub mod Stops
pub mod Names
pub mod Overlay
