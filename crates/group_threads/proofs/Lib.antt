pub mod Sent
pub mod Started
pub mod NetWords
