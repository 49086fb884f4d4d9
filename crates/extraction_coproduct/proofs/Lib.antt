pub mod Coproducts
pub mod Grown
pub mod Lines
pub mod Memos
pub mod Orders
pub mod TermsFound
