pub mod Answering
pub mod Forgetting
pub mod Indexing
pub mod Joining
pub mod Parts
pub mod Places
pub mod Steps
pub mod Winning
