pub mod Twice
pub mod Results
pub mod Guarded
pub mod Claims
pub mod Single
