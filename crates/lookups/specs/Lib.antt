pub mod Verdict
pub mod Lookup
pub mod Typed
