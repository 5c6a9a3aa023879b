-- What the impls of this crate cite as their laws.
pub mod GrammarLaws
