pub mod Edited
pub mod Served
pub mod Answered
