pub mod Plans
pub mod Rooms
pub mod Writes
pub mod Raises
