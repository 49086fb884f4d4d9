pub mod Accepted
pub mod EdgeTypes
