-- What the values of this crate's own types cite.
pub mod NameLaws
