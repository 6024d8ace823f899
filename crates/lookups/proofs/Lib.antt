pub mod Search
pub mod Rows
