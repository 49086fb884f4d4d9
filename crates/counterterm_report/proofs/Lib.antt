pub mod Lines
pub mod Masses
pub mod Pieces
pub mod ReadValues
pub mod RightSides
pub mod StoredValues
