pub mod Afters
pub mod EntryLaws
pub mod TallyLaws
