pub mod Dispatcher
pub mod Generator
