pub mod Timer
pub mod Checked
