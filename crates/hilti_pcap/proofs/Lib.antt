pub mod Records
pub mod Pieces
pub mod Plain
pub mod Readings
