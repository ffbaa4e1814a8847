pub mod Entries
pub mod Views
pub mod Frames
pub mod Steps
pub mod Rows
pub mod Ending
pub mod Closing
