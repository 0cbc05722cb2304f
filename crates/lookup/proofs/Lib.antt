pub mod Names
pub mod Probing
