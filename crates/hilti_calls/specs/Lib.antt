pub mod Calls
pub mod Stack
pub mod Parts
pub mod Stores
