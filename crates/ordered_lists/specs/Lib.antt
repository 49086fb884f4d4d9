pub mod Members
pub mod Subs
