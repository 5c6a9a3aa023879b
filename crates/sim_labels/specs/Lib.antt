pub mod Groups
pub mod Labels
pub mod Words
