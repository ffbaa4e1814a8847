pub mod ReadingArguments
pub mod ReadingForms
