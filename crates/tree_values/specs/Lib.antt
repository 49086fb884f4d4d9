pub mod Quantities
pub mod Ranges
pub mod Values
