pub mod Laws
pub mod Runs
pub mod Where
pub mod Dropped
