pub mod Laid
pub mod Lines
