pub mod Joining
pub mod Lining
pub mod ReadGroups
pub mod ReadNames
pub mod ReadObjects
pub mod ReadValues
pub mod Telling
pub mod Widening
