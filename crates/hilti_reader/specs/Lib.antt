pub mod Loops
pub mod Modules
pub mod Placed
pub mod Promises
pub mod Readers
pub mod Spelled
