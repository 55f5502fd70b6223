pub mod Reading
pub mod Back
pub mod Once
