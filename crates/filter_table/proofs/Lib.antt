pub mod Places
pub mod Shifting
pub mod Held
pub mod Listing
