pub mod Find
pub mod Tests
pub mod Scan
pub mod Verdict
pub mod Laws
pub mod Examples
