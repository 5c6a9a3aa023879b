-- Words of private contracts.
pub mod Plain
pub mod Actors
pub mod Lines
pub mod Written
pub mod Printable
