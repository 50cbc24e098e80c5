pub mod Policies
pub mod Parts
pub mod Top
pub mod Header
pub mod Port
pub mod Target
pub mod Optional
