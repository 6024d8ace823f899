pub mod Ways
pub mod Whole
pub mod Cards
