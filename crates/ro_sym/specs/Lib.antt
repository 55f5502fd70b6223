pub mod Sections
pub mod Symbols
pub mod Calls
pub mod Addresses
