pub mod Checks
pub mod Checked
