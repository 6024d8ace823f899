pub mod Tags
pub mod Take
