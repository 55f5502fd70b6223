pub mod Seen
pub mod Seats
pub mod Fields
pub mod Runs
pub mod Numbers
pub mod Amid
pub mod Opening
