pub mod Format
pub mod Fields
pub mod Ids
pub mod Rows
pub mod Commands
pub mod Services
pub mod StateText
