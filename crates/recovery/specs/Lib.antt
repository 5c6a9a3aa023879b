pub mod Runs
pub mod Settling
pub mod Restarting
pub mod GroupSettling
pub mod GroupRestarting
pub mod Inner
