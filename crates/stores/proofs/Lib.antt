pub mod Checked
pub mod Storing
pub mod Chaining
pub mod Walking
pub mod Celling
mod Steps
