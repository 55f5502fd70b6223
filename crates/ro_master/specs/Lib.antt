pub mod Sessions
pub mod Driven
pub mod Names
pub mod Seats
pub mod Passes
pub mod Desks
pub mod Masters
