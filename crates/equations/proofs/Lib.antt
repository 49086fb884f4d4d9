pub mod Directions
pub mod EdgeTypeLaws
