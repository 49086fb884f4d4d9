pub mod Orders
pub mod Maps
pub mod PlaceLemmas
pub mod Ordered
pub mod Moves
pub mod Short
mod Answered
