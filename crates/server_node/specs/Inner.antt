-- Words of private contracts.
pub mod Lines
pub mod Outcomes
pub mod Going
