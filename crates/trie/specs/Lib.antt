pub mod Strings
pub mod Trees
pub mod Shown
pub mod Meant
pub mod Bitstrings
pub mod Uses
pub mod Counting
pub mod Relabelled
