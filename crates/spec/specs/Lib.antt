pub mod Spec
pub mod Safety
pub mod Visible
pub mod Refinement
pub mod LogSpec
