pub mod Alone
pub mod Walk
