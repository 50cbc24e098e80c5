pub mod BitList
pub mod Judged
