pub mod BoundsOfTrees
pub mod EdgesFrom
pub mod Recursion
