pub mod Answers
pub mod Offsets
pub mod Registers
pub mod Access
pub mod Transfer
pub mod Checked
