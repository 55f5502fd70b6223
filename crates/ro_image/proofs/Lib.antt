pub mod Opening
pub mod Bounded
