pub mod Pages
pub mod Reads
pub mod Replies
pub mod Seen
pub mod Series
pub mod Visits
