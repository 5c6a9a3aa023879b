pub mod Asked
pub mod Duties
pub mod Posting
