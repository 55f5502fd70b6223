pub mod Tails
pub mod Rows
pub mod Checking
pub mod Loading
pub mod Flags
