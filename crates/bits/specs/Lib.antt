pub mod Pick
pub mod Word
