pub mod Stores
pub mod Listed
