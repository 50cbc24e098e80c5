pub mod Call
pub mod Bytes
