pub mod Laws
pub mod Apart
pub mod Kept
