pub mod Rooms
pub mod Calls
pub mod Inner
