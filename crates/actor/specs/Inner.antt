-- Words of private contracts.
pub mod Outcomes
