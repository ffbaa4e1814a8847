pub mod Traces
pub mod Segments
