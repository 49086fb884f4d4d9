pub mod Finished
pub mod Memo
pub mod Sorted
pub mod Terms
