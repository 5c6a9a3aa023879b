pub mod Answers
pub mod Calls
pub mod Worked
pub mod Inner
pub mod Laws
