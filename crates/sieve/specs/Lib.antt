pub mod Touched
pub mod Counted
pub mod Sieved
pub mod Proper
