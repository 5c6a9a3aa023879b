pub mod Actors
pub mod Refusals
pub mod Cells
pub mod Turns
pub mod Groups
pub mod Opening
pub mod Rests
pub mod Inner
