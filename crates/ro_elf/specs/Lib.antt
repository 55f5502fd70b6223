pub mod Numbers
pub mod Checks
pub mod Errors
pub mod Header
pub mod Segments
pub mod Elf
