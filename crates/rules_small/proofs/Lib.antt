pub mod Either
pub mod Signs
