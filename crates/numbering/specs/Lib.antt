pub mod Alone
pub mod Fill
