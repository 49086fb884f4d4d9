pub mod Report
pub mod Stored
pub mod Values
