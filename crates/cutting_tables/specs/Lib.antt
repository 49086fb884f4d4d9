pub mod Keys
pub mod Live
pub mod PoolLows
pub mod Tables
