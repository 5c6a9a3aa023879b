-- Words of private contracts.
pub mod Commands
pub mod Lines
