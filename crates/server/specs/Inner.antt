pub mod DeskWatch
pub mod Acts
pub mod Idle
pub mod Replies
pub mod Plans
pub mod LogSteps
pub mod Sources
