pub mod AtLeast
pub mod Once
pub mod Shallow
pub mod ShallowDerives
