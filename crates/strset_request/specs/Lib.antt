pub mod Policies
pub mod Top
pub mod Set
pub mod List
pub mod Asked
