pub mod Handed
pub mod Refusals
pub mod Answers
pub mod Actors
pub mod Inner
