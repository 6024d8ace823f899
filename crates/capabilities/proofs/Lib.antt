pub mod Marks
pub mod Rows
pub mod Laws
pub mod Cards
