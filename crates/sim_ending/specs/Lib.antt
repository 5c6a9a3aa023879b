pub mod Endings
pub mod EndNumbers
pub mod Inner
