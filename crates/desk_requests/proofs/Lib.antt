pub mod Begins
mod BodyLemmas
mod Fronts
mod Inserting
mod Numbers
mod Paths
pub mod ProjectNames
mod Seeking
pub mod Stays
mod Waits
