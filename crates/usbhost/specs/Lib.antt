pub mod Answers
pub mod Host
pub mod Calls
pub mod Promises
pub mod Frame
