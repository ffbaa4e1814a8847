mod Exclusion
mod Reading
mod Sending
mod Zips
pub mod Opened
pub mod Running
pub mod Sound
