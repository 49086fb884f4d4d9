pub mod PooledTexts
pub mod PooledTrees
