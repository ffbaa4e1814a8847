pub mod Exact
pub mod Laws
pub mod Mnemonics
pub mod Rows
pub mod Table
