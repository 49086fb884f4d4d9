pub mod Lookups
pub mod ConstantTexts
pub mod ValueLaws
pub mod HoldLaws
pub mod NewLaws
pub mod ReadLaws
pub mod AuditLaws
pub mod TrueLaws
