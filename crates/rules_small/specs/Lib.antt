pub mod Rounding
pub mod Memory
pub mod Power
pub mod Token
