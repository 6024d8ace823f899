pub mod Masks
pub mod Examples
