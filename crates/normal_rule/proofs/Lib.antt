pub mod Fits
pub mod Gaps
pub mod OrderLaws
pub mod OverTypes
pub mod RuleLaws
pub mod Sizes
