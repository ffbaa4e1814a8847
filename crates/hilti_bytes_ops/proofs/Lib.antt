pub mod Places
pub mod Decided
