pub mod Sends
pub mod Fetches
