pub mod Actors
pub mod Histories
pub mod Seats
pub mod Noted
pub mod Inner
