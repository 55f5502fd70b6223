pub mod Deciding
pub mod Adding
pub mod Closing
pub mod Below
