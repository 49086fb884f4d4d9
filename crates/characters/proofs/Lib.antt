pub mod Firsts
pub mod MissingTrees
pub mod Outcomes
pub mod Pooled
pub mod ProductTerms
pub mod Summed
pub mod TermQuestions
pub mod ThreeSums
