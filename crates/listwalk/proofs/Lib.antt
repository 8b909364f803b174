pub mod Column
pub mod Size
pub mod Build
pub mod Answered
pub mod Determined
