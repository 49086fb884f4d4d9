pub mod Closure
pub mod Stages
