pub mod ReadingTypes
