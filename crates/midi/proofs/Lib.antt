pub mod Laws
pub mod Written
pub mod Table
pub mod Bounds
pub mod Examples
