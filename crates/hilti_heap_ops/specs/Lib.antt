pub mod Meaning
pub mod Shapes
