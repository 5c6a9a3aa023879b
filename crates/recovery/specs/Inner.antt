-- Words of private contracts.
pub mod Spreads
pub mod Drives
pub mod Goings
pub mod Kinds
pub mod DownServers
