pub mod Magnitudes
pub mod Numerals
