pub mod Distinct
pub mod Indexes
pub mod Told
pub mod Fits
pub mod Sending
pub mod Taking
pub mod Receiving
