-- Words of private contracts.
pub mod Steps
pub mod Backs
