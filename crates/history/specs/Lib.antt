pub mod Calls
pub mod Reach
pub mod Rings
pub mod Sums
pub mod Accepts
pub mod PortMarks
