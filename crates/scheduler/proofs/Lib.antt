pub mod Lists
pub mod Names
pub mod Found
pub mod Best
pub mod Shares
pub mod Placing
pub mod Determined
