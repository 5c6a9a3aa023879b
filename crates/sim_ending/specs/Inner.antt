-- Words of private contracts.
pub mod Newest
pub mod Tells
