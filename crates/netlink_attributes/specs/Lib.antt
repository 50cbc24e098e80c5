pub mod Attributes
pub mod Claims
