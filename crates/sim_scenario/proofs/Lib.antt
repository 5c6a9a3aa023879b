pub mod Objects
pub mod EachLine
pub mod Complaints
mod NamedSteps
