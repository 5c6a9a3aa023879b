pub mod GroupFrames
