mod Walks
mod Rising
mod Rooms
pub mod Asked
mod Flags
pub mod Agree
pub mod Built
pub mod Determined
