pub mod Items
pub mod Kept
pub mod Parts
pub mod Tokens
pub mod Turns
