pub mod Computing
pub mod Finding
pub mod Numbers
