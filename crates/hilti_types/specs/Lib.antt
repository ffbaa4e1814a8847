pub mod Depths
pub mod InTurn
pub mod Keys
pub mod Sendable
pub mod Told
