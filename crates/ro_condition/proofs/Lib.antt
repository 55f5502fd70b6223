pub mod Places
pub mod Signals
pub mod Whose
