pub mod Allowed
pub mod Mission
pub mod Demands
pub mod FirstDemand
pub mod Numbered
