pub mod Each
pub mod Finding
