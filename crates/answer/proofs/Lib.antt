pub mod Moves
pub mod Laws
pub mod Right
pub mod Whole
pub mod Reading
