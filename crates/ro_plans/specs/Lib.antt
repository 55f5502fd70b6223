pub mod First
pub mod Plans
pub mod Walks
pub mod Rows
