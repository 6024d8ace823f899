pub mod Digits
pub mod Parts
pub mod Takes
pub mod Laws
pub mod Examples
