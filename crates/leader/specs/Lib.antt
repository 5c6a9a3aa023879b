pub mod Errors
pub mod OpenDesks
pub mod Verdicts
pub mod Following
pub mod Staying
pub mod GroupActs
pub mod Inner
