pub mod WordBytes
pub mod Stored
