pub mod Examples
pub mod Hooks
pub mod Returning
pub mod Typing
