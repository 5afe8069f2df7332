pub mod Asking
pub mod Marking
pub mod Times
pub mod Entering
pub mod Reached
pub mod Searching
