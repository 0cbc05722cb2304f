pub mod Bits
pub mod Relating
