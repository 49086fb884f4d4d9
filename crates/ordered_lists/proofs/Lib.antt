pub mod Above
pub mod Counts
pub mod Insertion
pub mod Lengths
pub mod Members
pub mod Places
pub mod Subs
pub mod Unique
