pub mod Defaults
pub mod Periods
pub mod Waits
pub mod Watches
pub mod ServerTimes
pub mod ClientTimes
