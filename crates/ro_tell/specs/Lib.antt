pub mod Agreeing
pub mod Causes
pub mod Judging
