pub mod Policies
pub mod Parts
pub mod Bitset
pub mod Form
