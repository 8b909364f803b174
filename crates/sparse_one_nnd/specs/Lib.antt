pub mod Said
pub mod Start
pub mod Blocks
pub mod Writing
pub mod Offsets
