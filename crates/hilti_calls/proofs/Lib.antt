pub mod Fuel
pub mod Stacks
pub mod Cutting
pub mod Leading
pub mod Moves
pub mod Examples
