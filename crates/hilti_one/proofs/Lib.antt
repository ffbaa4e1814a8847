pub mod Turns
pub mod Ends
pub mod Feeding
pub mod Going
pub mod Reports
