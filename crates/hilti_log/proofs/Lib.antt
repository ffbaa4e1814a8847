pub mod Rolls
pub mod Whole
