pub mod Low
pub mod Ways
