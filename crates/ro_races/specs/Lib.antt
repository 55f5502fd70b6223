pub mod First
pub mod Clocks
pub mod Seen
pub mod Shadows
pub mod Follows
