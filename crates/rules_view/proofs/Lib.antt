pub mod Indices
pub mod Examples
