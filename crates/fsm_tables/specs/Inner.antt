-- Words of private contracts.
pub mod Index
pub mod Keys
pub mod Sums
