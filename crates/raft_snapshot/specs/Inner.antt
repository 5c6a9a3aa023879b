-- Words of private contracts.
pub mod Faults
