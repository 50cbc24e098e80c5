pub mod Strings
pub mod Sets
pub mod Message
