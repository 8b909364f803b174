pub mod Said
pub mod Fields
pub mod Levels
pub mod Extremes
pub mod Scan
pub mod Determined
