pub mod Schema
pub mod Tables
pub mod Told
pub mod Changes
pub mod Steady
