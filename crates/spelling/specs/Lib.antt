pub mod Classes
pub mod Unspaced
