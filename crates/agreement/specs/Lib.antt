pub mod Inputs
pub mod Laws
