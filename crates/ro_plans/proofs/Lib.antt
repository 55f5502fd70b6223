pub mod Times
pub mod Runs
pub mod Prefixes
pub mod Knowing
pub mod Told
