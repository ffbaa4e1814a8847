pub mod Numerals
pub mod Ranges
pub mod formers
