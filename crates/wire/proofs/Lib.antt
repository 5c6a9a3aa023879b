pub mod Buffers
pub mod ServiceLaws
pub mod GrammarLaws
pub mod Framing
pub mod Installs
pub mod LogFrames
pub mod Rules
pub mod Sizes
