-- Words of private contracts.
pub mod Faults
pub mod Files
pub mod Printed
pub mod Replayed
pub mod Steps
