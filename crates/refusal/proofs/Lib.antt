pub mod Agree
pub mod Determined
