pub mod Rows
pub mod Store
