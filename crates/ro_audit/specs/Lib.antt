pub mod Pages
pub mod Registers
pub mod Audits
pub mod Following
pub mod Ranks
pub mod Returning
