pub mod Boards
pub mod Lists
