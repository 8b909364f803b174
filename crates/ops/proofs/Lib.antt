pub mod Scan
pub mod Asked
pub mod Naive
pub mod Determined
