pub mod Decision
pub mod PortIn
