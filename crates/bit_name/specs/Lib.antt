pub mod Find
pub mod Told
