pub mod Config
pub mod Pairs
pub mod Table
pub mod Inverse
