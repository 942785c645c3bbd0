pub mod Cases
pub mod Limits
