pub mod Lengths
pub mod Headers
pub mod Messages
