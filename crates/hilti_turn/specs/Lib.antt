pub mod Journal
pub mod Rule
pub mod Passes
pub mod Turns
