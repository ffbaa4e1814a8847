pub mod Deepest
pub mod InTurn
pub mod Keeping
pub mod Parts
