pub mod Entries
pub mod Eights
pub mod Chains
pub mod NameLength
