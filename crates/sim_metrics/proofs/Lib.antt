pub mod Once
pub mod Rooms
