pub mod FirstPlaces
pub mod Gathered
pub mod Items
pub mod Meanings
pub mod Numbers
pub mod Scopes
