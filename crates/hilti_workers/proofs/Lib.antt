pub mod Listed
pub mod Standing
pub mod Answered
pub mod Sections
pub mod Working
pub mod Sending
pub mod Feeds
