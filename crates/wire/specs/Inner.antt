-- Words of private contracts.
pub mod Ends
pub mod Readings
pub mod Said
pub mod Sizes
