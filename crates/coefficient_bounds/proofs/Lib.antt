pub mod Binomials
pub mod PoolSteps
pub mod Shifts
pub mod Totals
pub mod Weights
