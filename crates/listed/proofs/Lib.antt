pub mod Find
pub mod Marks
pub mod Laws
pub mod Examples
