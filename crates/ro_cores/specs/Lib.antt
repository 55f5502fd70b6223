pub mod History
pub mod Cores
pub mod Loans
pub mod Sharing
