pub mod Promises
pub mod Areas
