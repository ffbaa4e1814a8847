pub mod Readings
pub mod Shifts
pub mod Unwrapped
