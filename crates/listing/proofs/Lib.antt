pub mod Scan
pub mod Fill
pub mod Putting
pub mod Pieces
pub mod Nodes
pub mod Told
pub mod Agree
pub mod Determined
