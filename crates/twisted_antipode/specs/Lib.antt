pub mod Counts
pub mod Held
pub mod Kinds
pub mod Known
pub mod Quotients
pub mod RunTerms
pub mod Values
