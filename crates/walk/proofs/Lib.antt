pub mod Filling
pub mod Visits
pub mod Totals
pub mod Laws
pub mod Cards
