pub mod Policy
pub mod NulSearch
pub mod Walk
pub mod Claims
