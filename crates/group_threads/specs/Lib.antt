pub mod WorkerTurns
pub mod Running
pub mod Inner
