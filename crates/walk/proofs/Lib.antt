pub mod Paths
pub mod Stepping
pub mod Turns
pub mod Checks
pub mod Ends
pub mod Agree
pub mod Determined
