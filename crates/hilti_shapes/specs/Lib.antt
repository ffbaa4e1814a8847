pub mod Needs
pub mod Objects
pub mod TypedRows
pub mod Places
pub mod Keeping
pub mod Examples
