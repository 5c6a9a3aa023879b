pub mod Urgencies
pub mod Anew
