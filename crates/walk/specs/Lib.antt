pub mod Order
pub mod Depth
pub mod Written
pub mod Total
