mod Products
mod SameDegrees
mod SameEntries
pub mod SameRows
mod SameTexts
mod SameValueTexts
mod SameVanishing
