pub mod Still
pub mod Changes
