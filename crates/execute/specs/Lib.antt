pub mod Execute
pub mod Fit
pub mod CarriedOut
