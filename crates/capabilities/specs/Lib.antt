pub mod Ask
pub mod Part
