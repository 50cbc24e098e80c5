pub mod Keys
pub mod Along
