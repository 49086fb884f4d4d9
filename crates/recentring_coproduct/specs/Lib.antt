pub mod Held
pub mod Memo
pub mod Terms
