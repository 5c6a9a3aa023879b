pub mod WaySteps
pub mod Moments
pub mod Greatest
