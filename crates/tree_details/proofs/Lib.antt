pub mod Assembled
pub mod Found
pub mod PoolTrees
pub mod Refused
pub mod Sections
pub mod SumTexts
pub mod ValueSymbols
