pub mod Results
pub mod Laws
pub mod Seen
pub mod Examples
