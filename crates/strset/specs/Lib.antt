pub mod Strset
pub mod PortNamed
