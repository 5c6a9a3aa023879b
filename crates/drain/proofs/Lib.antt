pub mod Groups
pub mod Moving
pub mod Marking
