pub mod Faults
pub mod Frames
pub mod Levels
pub mod States
pub mod Bodies
pub mod Openings
pub mod Told
