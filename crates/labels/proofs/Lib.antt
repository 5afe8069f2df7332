pub mod Tables
pub mod Different
