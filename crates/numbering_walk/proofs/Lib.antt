pub mod Walks
pub mod Operation
