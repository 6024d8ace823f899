pub mod Kept
pub mod Walk
pub mod Moving
pub mod Lists
pub mod Fixed
pub mod Several
pub mod Attributes
pub mod Says
