pub mod Entries
pub mod Feeding
pub mod Finding
pub mod Section
pub mod Turns
