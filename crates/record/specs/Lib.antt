pub mod Sizes
pub mod Record
pub mod World
pub mod Parts
pub mod Change
pub mod Setups
pub mod Did
