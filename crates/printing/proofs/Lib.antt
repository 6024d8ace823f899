pub mod Laws
pub mod Cards
