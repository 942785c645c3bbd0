pub mod Laws
pub mod Outcomes
pub mod Entries
pub mod Kept
pub mod Frame
pub mod Descriptors
pub mod Cables
pub mod Written
