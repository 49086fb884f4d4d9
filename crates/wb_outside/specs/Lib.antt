pub mod Books
pub mod Causes
pub mod Doors
pub mod Told
pub mod Texts
pub mod Memory
pub mod Quiet
