pub mod Replies
pub mod Served
