pub mod Normal
pub mod Claims
pub mod Sheet
pub mod Fits
