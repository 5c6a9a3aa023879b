pub mod Logs
mod Rereads
pub mod Entries
pub mod Blanks
pub mod Whole
pub mod Rafts
pub mod Steps
pub mod Snapshots
pub mod Applies
pub mod Merges
pub mod Shown
pub mod Watches
pub mod Seen
pub mod TextRules
pub mod TextLaws
pub mod TermsOfMerges
pub mod TermsOfSteps
pub mod Changes
