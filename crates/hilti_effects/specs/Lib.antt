pub mod State
pub mod Operands
pub mod Raising
pub mod Printing
pub mod Acting
pub mod Asks
pub mod Effect
pub mod Laws
