pub mod Sums
pub mod Rests
pub mod Quiet
pub mod Looks
pub mod Parts
