pub mod Commands
pub mod Admission
