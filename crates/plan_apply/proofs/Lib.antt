pub mod Stopping
pub mod Fewness
pub mod Naming
pub mod Rooming
pub mod Alone
pub mod Keeping
pub mod Admitting
