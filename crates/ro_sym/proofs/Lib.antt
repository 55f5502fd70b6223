pub mod Rows
pub mod Among
pub mod Ends
pub mod Strings
pub mod Tables
