pub mod Context
pub mod Different
pub mod Draft
pub mod Made
pub mod Parts
pub mod Same
pub mod Scaling
