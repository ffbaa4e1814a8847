mod Behind
mod BuiltIn
mod Modules
mod Positions
mod Seeing
mod Words
