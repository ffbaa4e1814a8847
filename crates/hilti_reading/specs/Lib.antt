pub mod OneModule
pub mod Refusals
