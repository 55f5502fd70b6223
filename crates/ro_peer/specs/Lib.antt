pub mod Peers
pub mod Gets
pub mod Seen
pub mod Indexed
pub mod Leases
pub mod Events
