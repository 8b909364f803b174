pub mod Steps
pub mod Parts
