pub mod Words
pub mod Losses
pub mod Moves
pub mod Drains
pub mod Refusals
pub mod Disks
pub mod Ends
pub mod Absences
