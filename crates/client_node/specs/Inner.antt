-- Words of private contracts.
pub mod Outcomes
pub mod Joined
pub mod Lines
