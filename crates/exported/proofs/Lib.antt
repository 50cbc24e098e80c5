pub mod Returned
pub mod Dumped
pub mod Normalised
pub mod Checked
pub mod Found
