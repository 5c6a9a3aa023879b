-- Words of private contracts.
pub mod RowReading
