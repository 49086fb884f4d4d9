pub mod Rows
pub mod Held
pub mod Sound
pub mod Audits
