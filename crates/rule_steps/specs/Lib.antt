pub mod Choices
pub mod Sets
pub mod Steps
pub mod Sums
pub mod Units
