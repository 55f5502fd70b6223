pub mod Instructions
pub mod Parts
