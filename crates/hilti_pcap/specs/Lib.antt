pub mod Headers
pub mod Records
pub mod Fronts
pub mod Capture
pub mod Endings
pub mod Reader
pub mod Readings
