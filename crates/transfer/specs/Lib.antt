pub mod Transfer
pub mod Pages
pub mod Checked
