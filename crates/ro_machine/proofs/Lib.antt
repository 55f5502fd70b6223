pub mod Quick
pub mod Faults
pub mod Joined
pub mod Planned
pub mod Plains
pub mod Serving
pub mod Stepping
pub mod Noted
