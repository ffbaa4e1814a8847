pub mod Cutting
pub mod Examples
pub mod Following
pub mod Naming
pub mod Numbering
pub mod Refusing
pub mod Shortness
pub mod TypedBlocks
