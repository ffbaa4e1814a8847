pub mod Sets
pub mod Cuts
pub mod Lookahead
pub mod Derived
pub mod Ends
pub mod Theorem
pub mod Loops
pub mod Examples
