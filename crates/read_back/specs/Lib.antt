pub mod Claims
pub mod Strset
