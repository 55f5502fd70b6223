pub mod Cooperative
pub mod Exit
pub mod Guests
pub mod Edges
pub mod Lending
pub mod Order
pub mod Rows
pub mod Tables
