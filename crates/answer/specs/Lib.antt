pub mod Box
pub mod Run
