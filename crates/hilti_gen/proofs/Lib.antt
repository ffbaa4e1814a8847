pub mod Captures
pub mod Joins
pub mod Records
