pub mod Asked
pub mod Splits
