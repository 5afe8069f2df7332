pub mod Counting
pub mod Sieving
