pub mod Content
pub mod Forests
pub mod Nodes
pub mod Types
