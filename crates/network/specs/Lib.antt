pub mod Products
pub mod Nodes
pub mod Searches
