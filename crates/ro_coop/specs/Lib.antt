pub mod Core
pub mod Sound
pub mod Stuck
pub mod Rowless
pub mod Guests
pub mod Contests
pub mod Runs
