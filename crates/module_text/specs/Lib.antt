pub mod Whole
pub mod Step
