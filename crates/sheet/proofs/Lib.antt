pub mod Ways
pub mod Whole
pub mod Back
pub mod Cards
