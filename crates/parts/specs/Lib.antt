pub mod Meaning
pub mod Checks
pub mod Marks
pub mod Asked
