pub mod Contents
pub mod Fakes
pub mod Faults
pub mod Shelf
pub mod System
