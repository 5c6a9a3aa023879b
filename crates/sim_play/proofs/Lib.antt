pub mod Numbers
pub mod Plays
pub mod GoodSteps
pub mod Steps
