pub mod Histories
pub mod Relations
pub mod Runs
pub mod Figures
