pub mod Sizes
pub mod Layout
pub mod Sheet
pub mod Tables
pub mod Answer
pub mod Place
pub mod Value
