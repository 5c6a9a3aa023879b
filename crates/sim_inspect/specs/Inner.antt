-- Words of private contracts.
pub mod Findings
pub mod Applied
pub mod Clients
pub mod Deliveries
pub mod Reports
pub mod StateRows
