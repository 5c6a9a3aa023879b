pub mod Fates
pub mod Queues
pub mod Words
pub mod Worked
