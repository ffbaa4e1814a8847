pub mod Literals
pub mod Operands
