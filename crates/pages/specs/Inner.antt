-- Words of private contracts.
pub mod Below
pub mod Filled
pub mod Parts
pub mod Slots
