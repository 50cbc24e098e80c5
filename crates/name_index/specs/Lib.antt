pub mod Chain
pub mod NamesIn
pub mod OneProof
