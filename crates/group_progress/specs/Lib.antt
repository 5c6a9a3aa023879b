pub mod GroupRecovery
