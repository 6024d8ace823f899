pub mod Twice
pub mod Marks
pub mod Once
