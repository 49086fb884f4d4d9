mod AuditLemmas
mod ComputingLemmas
mod MigrateLemmas
mod ProjectLemmas
mod ReportLemmas
mod RunLemmas
pub mod SteppedLemmas
