pub mod Body
pub mod Commands
pub mod Decisions
pub mod Fields
pub mod Heads
pub mod Places
