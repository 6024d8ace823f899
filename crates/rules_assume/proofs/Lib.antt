pub mod Turns
pub mod Cards
