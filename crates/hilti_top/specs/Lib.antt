pub mod Calls
pub mod Inputs
pub mod ModuleFaults
pub mod ModuleTexts
pub mod Opening
pub mod Report
pub mod StatusText
