pub mod FileRead
pub mod ItemsRead
pub mod LimitsKept
pub mod TypesBack
pub mod TypesWritten
pub mod WrittenBack
pub mod WrittenFile
