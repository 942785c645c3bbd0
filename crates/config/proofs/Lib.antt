pub mod Cases
pub mod Few
pub mod Padding
pub mod Placing
pub mod Cut
pub mod Sizes
