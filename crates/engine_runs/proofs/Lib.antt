pub mod Exact
pub mod Performed
