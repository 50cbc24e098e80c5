pub mod Laws
pub mod In
