pub mod Owned
pub mod Free
pub mod Acts
pub mod Printed
pub mod Returns
pub mod Unwinding
