pub mod Opcodes
pub mod Mma
pub mod Part
