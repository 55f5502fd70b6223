pub mod Asking
pub mod Got
