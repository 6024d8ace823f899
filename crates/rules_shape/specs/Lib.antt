pub mod Opcode
pub mod Arm
