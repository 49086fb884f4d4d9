pub mod Detail
pub mod Ranges
pub mod Values
