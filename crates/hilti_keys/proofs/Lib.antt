pub mod Parts
pub mod Total
