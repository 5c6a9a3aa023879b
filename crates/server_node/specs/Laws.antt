pub mod Outputs
pub mod Lives
