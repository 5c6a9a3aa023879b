pub mod Pages
pub mod Faults
pub mod ThreadSteps
pub mod Expansions
pub mod Told
pub mod Inner
