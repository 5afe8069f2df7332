pub mod Finding
pub mod Meanings
pub mod Lying
pub mod Marking
pub mod Reaching
pub mod Searching
