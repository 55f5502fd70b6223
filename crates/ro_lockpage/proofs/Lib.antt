pub mod Lists
pub mod Notes
pub mod Hands
pub mod Moves
pub mod Closing
pub mod Tries
