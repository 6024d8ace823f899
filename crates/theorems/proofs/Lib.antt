pub mod Passed
pub mod Demands
pub mod Seen
pub mod Program
pub mod OtherIds
pub mod Depth
pub mod Nested
