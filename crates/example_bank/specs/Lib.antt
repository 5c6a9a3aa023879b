pub mod BankState
pub mod Outcomes
pub mod Texts
pub mod Bank
pub mod Books
pub mod Histories
pub mod Laws
