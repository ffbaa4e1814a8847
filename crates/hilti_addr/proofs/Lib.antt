pub mod Colons
pub mod Forms
pub mod Groups
pub mod Spelled
pub mod Texts
