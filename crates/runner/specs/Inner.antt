-- Words of private contracts.
pub mod Faults
pub mod Helps
pub mod Printed
pub mod Runs
pub mod Closed
pub mod Actors
