pub mod Tags
pub mod WordTable
