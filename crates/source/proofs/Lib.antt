pub mod Standings
pub mod Keeping
pub mod Variables
