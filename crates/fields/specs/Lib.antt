pub mod Number
pub mod Cut
pub mod Taken
