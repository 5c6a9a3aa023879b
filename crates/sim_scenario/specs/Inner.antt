-- Words of private contracts.
pub mod Grown
