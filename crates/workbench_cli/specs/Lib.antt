pub mod Delivery
pub mod Numbers
pub mod Reading
pub mod Runs
pub mod Serving
