pub mod Tasks
pub mod Trees
pub mod Lists
