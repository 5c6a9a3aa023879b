pub mod Requests
pub mod WorkerLines
pub mod EventLines
pub mod Transcripts
pub mod Inner
pub mod Laws
