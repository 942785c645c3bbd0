pub mod Fnv
pub mod Line
pub mod Left
pub mod Kept
