pub mod Threads
pub mod Sound
pub mod Segments
pub mod Begun
pub mod Steps
