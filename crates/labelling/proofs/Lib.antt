pub mod Tells
pub mod Listed
