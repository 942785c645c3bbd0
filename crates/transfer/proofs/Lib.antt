pub mod Laws
pub mod Addresses
pub mod Sending
pub mod Fill
pub mod Runs
pub mod Loops
pub mod Checked
pub mod PointerLoop
