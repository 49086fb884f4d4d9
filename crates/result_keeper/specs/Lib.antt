pub mod ProjectName
pub mod Kept
pub mod Told
pub mod Entries
pub mod Memory
