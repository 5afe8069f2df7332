pub mod Counting
pub mod Values
pub mod Filters
pub mod Formed
pub mod Standing
pub mod Scans
pub mod Labels
pub mod Answers
