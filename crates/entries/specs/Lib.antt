pub mod Entry
pub mod Length
pub mod Bytes
pub mod Chain
