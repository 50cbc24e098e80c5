pub mod Numbers
pub mod Order
pub mod Put
pub mod Scan
pub mod Truth
pub mod Those
pub mod Results
