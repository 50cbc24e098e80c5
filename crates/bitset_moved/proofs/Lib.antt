pub mod Attributes
pub mod Walk
pub mod Parts
pub mod Compact
pub mod Bit
pub mod BitList
pub mod Bitset
pub mod Both
