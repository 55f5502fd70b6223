pub mod Names
pub mod Made
pub mod Bench
