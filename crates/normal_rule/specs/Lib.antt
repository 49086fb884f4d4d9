pub mod Gaps
pub mod Made
pub mod Order
pub mod OverTypes
pub mod Regularity
pub mod Rule
pub mod Text
