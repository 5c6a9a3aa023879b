pub mod First
pub mod Worked
