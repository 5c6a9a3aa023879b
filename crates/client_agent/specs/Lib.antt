pub mod Capacity
pub mod AgentView
pub mod Inputs
pub mod Steps
pub mod Refusals
pub mod Inner
