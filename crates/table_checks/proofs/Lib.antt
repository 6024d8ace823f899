pub mod Turn
pub mod Bare
pub mod Laws
pub mod Reach
pub mod Cards
pub mod Handed
