pub mod Said
pub mod Areas
pub mod Contract
pub mod Demands
