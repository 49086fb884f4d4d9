mod AnswerLemmas
pub mod CompletedLemmas
pub mod ComputeLemmas
pub mod DetailLemmas
mod Digits
pub mod FileLemmas
pub mod Fronts
mod GivenLemmas
mod KernelRows
pub mod Onward
pub mod RequestLemmas
mod SampleLemmas
mod SumLemmas
mod TableFronts
pub mod StoredLemmas
mod TextLemmas
mod TreeRows
