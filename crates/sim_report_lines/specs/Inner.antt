-- Words of private contracts.
pub mod Entries
pub mod Widths
