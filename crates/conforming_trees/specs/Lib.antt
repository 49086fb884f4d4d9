pub mod Budgets
pub mod Conforming
pub mod Listed
