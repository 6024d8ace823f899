pub mod Operation
pub mod Walks
pub mod Passed
