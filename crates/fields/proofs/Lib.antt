pub mod Values
pub mod EachOnce
pub mod Refusals
