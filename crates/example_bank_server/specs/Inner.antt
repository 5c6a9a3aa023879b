-- Words of private contracts.
pub mod Refusals
