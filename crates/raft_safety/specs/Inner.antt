-- The history of a run, and what the proofs carry along it.
pub mod SmallSteps
pub mod Functions
pub mod Ballots
pub mod Agreement
pub mod History
pub mod Invariants
