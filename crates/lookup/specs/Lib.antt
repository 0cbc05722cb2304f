pub mod First
pub mod Slots
