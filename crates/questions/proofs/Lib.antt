mod Loops
mod Links
mod Passing
mod Asking
mod Sums
pub mod Agree
pub mod Built
pub mod Determined
