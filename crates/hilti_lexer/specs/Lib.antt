pub mod Beginnings
pub mod Characters
pub mod Faults
pub mod Numerals
pub mod Readings
pub mod Strings
pub mod Tokens
