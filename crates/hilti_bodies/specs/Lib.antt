pub mod Blocks
pub mod Examples
pub mod Handlers
pub mod Laws
pub mod Sections
