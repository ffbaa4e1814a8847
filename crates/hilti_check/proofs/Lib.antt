pub mod Scanning
pub mod Resolved
pub mod Counting
pub mod Running
pub mod Contexts
pub mod Typed
pub mod Checked
