pub mod Groves
pub mod Lines
pub mod MadeOnce
pub mod MadeOver
pub mod NodeTables
pub mod Products
pub mod RightProducts
