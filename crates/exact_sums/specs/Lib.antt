pub mod Binomials
pub mod Keyed
pub mod Saturating
pub mod Sums
