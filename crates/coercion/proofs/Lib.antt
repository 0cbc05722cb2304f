pub mod Opened
pub mod Followed
pub mod Steps
pub mod Writing
pub mod Contents
pub mod Nexts
pub mod Members
