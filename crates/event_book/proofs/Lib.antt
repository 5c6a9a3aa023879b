pub mod Actors
pub mod Logs
pub mod Moves
pub mod Tokens
