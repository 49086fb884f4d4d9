pub mod Grouping
pub mod DistinctLists
pub mod Factorials
