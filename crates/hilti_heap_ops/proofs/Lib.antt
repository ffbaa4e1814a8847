pub mod Fields
pub mod Tested
