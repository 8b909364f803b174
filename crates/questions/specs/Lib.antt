pub mod Said
pub mod Closed
