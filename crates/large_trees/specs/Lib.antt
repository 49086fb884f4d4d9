pub mod Cells
pub mod Charges
pub mod Classes
pub mod Large
pub mod Limits
pub mod Lines
pub mod Sums
