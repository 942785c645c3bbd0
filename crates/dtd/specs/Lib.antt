pub mod Dtd
pub mod Promises
pub mod Where
