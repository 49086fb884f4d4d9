pub mod Antipode
pub mod Constants
pub mod Inheritance
pub mod Runs
pub mod Sameness
pub mod Sizes
pub mod Weighed
