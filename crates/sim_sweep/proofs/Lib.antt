pub mod Keys
pub mod Places
pub mod Spreads
pub mod Worst
