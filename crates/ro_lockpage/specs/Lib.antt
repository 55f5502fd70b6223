pub mod Ranks
pub mod Hands
pub mod Seats
pub mod Pages
