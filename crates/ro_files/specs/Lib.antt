pub mod Agreeing
pub mod Files
pub mod Refusals
pub mod Causes
