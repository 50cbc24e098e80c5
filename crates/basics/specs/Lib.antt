pub mod Numbers
pub mod Results
pub mod Nuls
pub mod Put
pub mod Scan
pub mod Those
