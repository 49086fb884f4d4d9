pub mod TextLemmas
pub mod ToldLemmas
mod BookLemmas
mod DoorLemmas
mod Fronts
