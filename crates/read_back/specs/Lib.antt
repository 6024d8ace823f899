pub mod Alone
pub mod Live
pub mod Stage
