pub mod Longest
pub mod Settings
pub mod Fault
