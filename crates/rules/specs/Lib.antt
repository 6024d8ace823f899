pub mod Opcode
pub mod Operation
