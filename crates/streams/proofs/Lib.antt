pub mod Found
pub mod Laws
