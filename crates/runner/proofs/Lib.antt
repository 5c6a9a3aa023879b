pub mod Tellings
pub mod Seats
pub mod Runs
pub mod Expansions
pub mod Afters
pub mod Ways
