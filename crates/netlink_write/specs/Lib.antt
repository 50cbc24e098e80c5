pub mod Headers
pub mod Attributes
pub mod PaddedName
