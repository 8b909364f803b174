pub mod Part
pub mod Said
pub mod Indices
