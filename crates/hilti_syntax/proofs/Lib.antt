pub mod Bounds
pub mod CountExamples
pub mod Counting
pub mod Firsts
pub mod Lines
pub mod Texts
