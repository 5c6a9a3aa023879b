-- What impls of this crate cite.
pub mod Outputs
pub mod Lives
