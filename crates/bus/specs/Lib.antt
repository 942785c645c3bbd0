pub mod Memory
pub mod Words
pub mod Sized
pub mod Checked
pub mod Steps
pub mod Stores
pub mod Windows
