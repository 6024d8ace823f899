pub mod Cell
pub mod Lists
