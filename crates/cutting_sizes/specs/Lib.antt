pub mod Bounds
pub mod Lows
pub mod Origins
pub mod Sizes
