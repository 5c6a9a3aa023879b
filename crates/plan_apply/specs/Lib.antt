pub mod Answers
pub mod Admitted
pub mod Inner
