pub mod collection
