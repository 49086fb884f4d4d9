pub mod CutTree
pub mod CutTrees
pub mod Entries
pub mod Examples
pub mod Recursion
pub mod Rooted
pub mod Roots
pub mod Terms
