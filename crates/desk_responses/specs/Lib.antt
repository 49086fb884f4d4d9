pub mod Names
pub mod Responses
