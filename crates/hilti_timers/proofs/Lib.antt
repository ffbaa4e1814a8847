pub mod Apart
pub mod Due
pub mod Gets
pub mod Steps
