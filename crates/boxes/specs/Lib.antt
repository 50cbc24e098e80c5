pub mod Box
pub mod Settings
pub mod Rule
