pub mod Held
pub mod Behind
