mod Answering
mod Pieces
mod Rows
pub mod Statuses
