pub mod Firsts
pub mod FormsRead
pub mod SameParts
pub mod Seconds
pub mod Says
pub mod Together
mod Widths
