pub mod Bit
pub mod Set
pub mod Change
pub mod Between
