-- Words of private contracts.
pub mod HistoryView
pub mod Inputs
pub mod Parts
pub mod GroupInputs
pub mod GroupParts
pub mod Room
