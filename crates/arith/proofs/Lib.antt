pub mod Signs
pub mod Widths
pub mod Products
pub mod Powers
pub mod Laws
pub mod Examples
pub mod Bits
