pub mod Kept
pub mod Schedule
