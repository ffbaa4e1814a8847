pub mod First
pub mod Literals
