pub mod Assume
