pub mod Built
pub mod Checking
pub mod Laws
