pub mod Actors
pub mod Views
pub mod Rule
