pub mod Bounds
pub mod PoolSums
