pub mod Said
pub mod Kept
pub mod Told
