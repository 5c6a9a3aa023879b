pub mod PlanCounts
pub mod Working
