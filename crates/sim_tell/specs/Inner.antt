-- Words of private contracts.
pub mod Cells
pub mod Newest
