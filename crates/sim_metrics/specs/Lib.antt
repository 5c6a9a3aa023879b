pub mod Verdicts
pub mod Metrics
