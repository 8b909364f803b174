pub mod Replies
pub mod Putting
pub mod Called
pub mod Made
pub mod Toured
pub mod Agree
pub mod Again
pub mod Determined
