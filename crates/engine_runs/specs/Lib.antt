pub mod Runs
pub mod Satisfied
