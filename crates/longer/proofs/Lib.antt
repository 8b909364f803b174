pub mod Copies
pub mod Growing
pub mod Agree
pub mod Determined
