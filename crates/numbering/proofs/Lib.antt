pub mod Handed
pub mod Sizes
pub mod Fill
pub mod Passed
pub mod Cards
