pub mod Marked
pub mod Checked
pub mod Finding
