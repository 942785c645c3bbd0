pub mod Answers
pub mod Send
