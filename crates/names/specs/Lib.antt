pub mod Parts
pub mod Bits
pub mod Index
