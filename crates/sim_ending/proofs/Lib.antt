pub mod Told
pub mod Live
pub mod Finding
pub mod Standing
pub mod Places
pub mod Whole
pub mod Leading
