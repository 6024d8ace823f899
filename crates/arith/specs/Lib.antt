pub mod Signed
pub mod Product
pub mod Power
pub mod Bits
