pub mod Lists
pub mod Keys
pub mod SafeFacts
pub mod StateLaws
pub mod SafeLaws
pub mod RangeLaws
pub mod UseLaws
pub mod NameLaws
pub mod PlanLaws
pub mod AfterLaws
pub mod ClusterMachine
mod OldTexts
