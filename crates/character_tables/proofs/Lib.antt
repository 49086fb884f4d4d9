pub mod EmptyTrees
pub mod LastSpaces
pub mod NumberTexts
pub mod RowsRead
pub mod Tables
