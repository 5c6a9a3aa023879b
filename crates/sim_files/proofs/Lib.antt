pub mod Files
pub mod Reasons
pub mod Refusals
pub mod Stages
pub mod Replays
pub mod Apart
pub mod ReadSteps
