pub mod Sources
pub mod Resolving
