pub mod Contents
pub mod Drawn
pub mod Loops
pub mod Noting
pub mod Fetching
pub mod Losses
pub mod Tops
