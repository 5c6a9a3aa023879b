-- What the texts of values that this crate reads cite.
pub mod PlainTexts
