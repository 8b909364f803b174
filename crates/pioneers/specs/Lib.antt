pub mod Pick
pub mod Placed
pub mod Turn
pub mod Scratch
pub mod Keep
pub mod Node
