pub mod Laws
pub mod Stack
