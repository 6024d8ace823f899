pub mod Ranged
pub mod Turns
pub mod Laws
