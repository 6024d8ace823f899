pub mod Rows
pub mod Parts
