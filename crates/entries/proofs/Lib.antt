pub mod Passing
pub mod FieldLabels
pub mod NodeLabels
pub mod Apart
pub mod Finding
