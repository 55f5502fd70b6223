pub mod InstructionsBack
pub mod WordsBack
pub mod Signs
