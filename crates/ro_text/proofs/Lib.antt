pub mod Values
pub mod Cuts
pub mod Spellings
pub mod Plain
