pub mod Collect
pub mod File
pub mod Meaning
pub mod Products
pub mod Refusals
