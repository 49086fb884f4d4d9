pub mod Listing
pub mod Pairings
pub mod Vanishing
