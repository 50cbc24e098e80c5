pub mod Laws
pub mod Effect
pub mod Forms
pub mod Fits
pub mod Stable
pub mod Accepted
pub mod Demand3
pub mod Sheet
