pub mod Inner
pub mod Flight
pub mod Plays
pub mod PlayEvents
pub mod Flows
pub mod PlayWork
pub mod PlaySteps
pub mod Played
