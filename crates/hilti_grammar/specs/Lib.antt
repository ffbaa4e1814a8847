pub mod Grammar
pub mod Derives
pub mod Predictive
pub mod Runs
pub mod Exact
pub mod Reads
pub mod Nested
