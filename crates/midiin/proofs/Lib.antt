pub mod Decoding
pub mod Laws
