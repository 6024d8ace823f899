pub mod Parts
pub mod Rows
pub mod Tagged
pub mod Steps
pub mod Fold
pub mod Laws
pub mod Examples
