-- What the impls of this crate cite as their laws.
pub mod TextLaws
pub mod BankLaws
