-- Words of private contracts.
pub mod Rests
pub mod Taking
pub mod Starting
pub mod Coming
