pub mod Declaring
pub mod Globals
pub mod Hooks
pub mod Sites
pub mod Turns
pub mod Laws
