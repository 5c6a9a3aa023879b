pub mod Ends
pub mod Ids
pub mod Rooms
pub mod Runs
pub mod Asking
pub mod Received
