pub mod Rounds
pub mod Lines
pub mod Counts
pub mod GivenValues
pub mod Numerals
