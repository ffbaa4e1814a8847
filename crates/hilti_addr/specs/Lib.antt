pub mod Brackets
pub mod Groups
pub mod Masks
pub mod Texts
