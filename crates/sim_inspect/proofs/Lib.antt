pub mod AppliedNumbers
pub mod Falls
pub mod Reports
pub mod Zips
