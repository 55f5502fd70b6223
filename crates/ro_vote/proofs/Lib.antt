pub mod Places
pub mod Verdicts
pub mod Copies
pub mod Answered
pub mod Prevailing
pub mod Sorting
