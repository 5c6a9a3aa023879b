pub mod Rows
pub mod TableRows
pub mod Claims
pub mod LiveNames
pub mod Lookups
pub mod Inner
pub mod ReservedTables
pub mod Urgencies
-- walks over tables
pub use Rattle.pages.specs.Runs
