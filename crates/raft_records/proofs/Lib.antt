pub mod Deltas
pub mod Starting
pub mod Saved
