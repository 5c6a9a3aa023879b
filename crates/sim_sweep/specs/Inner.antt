-- Words of private contracts.
pub mod Found
