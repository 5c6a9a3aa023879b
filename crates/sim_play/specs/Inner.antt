-- Words of private contracts.
pub mod Waiting
pub mod Lines
