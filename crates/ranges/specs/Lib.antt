pub mod Entry
pub mod Range
pub mod Part
pub mod Ranged
