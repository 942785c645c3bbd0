pub mod Kept
pub mod Fit
pub mod Ringing
pub mod Steps
