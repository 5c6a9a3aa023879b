pub mod RowByRow
pub mod Ordered
pub mod Anew
pub mod OfState
pub mod Wanting
