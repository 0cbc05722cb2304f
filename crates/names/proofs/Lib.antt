pub mod Walk
pub mod Adding
pub mod Growth
