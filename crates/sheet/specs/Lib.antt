pub mod Faults
pub mod Loads
pub mod Loaded
