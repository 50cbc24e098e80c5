pub mod List
pub mod Set
