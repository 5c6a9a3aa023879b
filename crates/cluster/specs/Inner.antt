pub mod Closed
pub mod Merged
pub mod Numbers
pub mod Runs
pub mod Joined
