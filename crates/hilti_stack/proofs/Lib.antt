pub mod Splits
pub mod Counting
pub mod Returns
