pub mod Packer
pub mod Claims
