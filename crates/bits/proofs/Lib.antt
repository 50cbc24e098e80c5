pub mod Bit
pub mod Words
pub mod Merge
pub mod Cut
pub mod Change
