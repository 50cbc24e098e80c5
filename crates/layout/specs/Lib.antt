pub mod Layout
pub mod AtMost
