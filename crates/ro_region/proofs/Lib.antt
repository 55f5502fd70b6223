pub mod Each
pub mod Granted
pub mod Opened
pub mod Wider
pub mod Writable
