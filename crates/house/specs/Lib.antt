pub mod State
pub mod House
pub mod Step
