mod Audited
mod Completions
mod Files
mod Fit
mod Maps
mod Migrated
mod Reports
pub mod SoundCalls
mod SoundReports
mod SoundRows
mod SoundSteps
mod StoredReports
