-- Words of private contracts.
pub mod Names
pub mod Loads
pub mod Growing
