pub mod Frames
pub mod Gathered
pub mod Levels
pub mod Made
pub mod Roots
