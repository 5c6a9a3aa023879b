pub mod Steps
pub mod Alone
pub mod Claimed
