mod Finishing
mod NextWord
mod Pieces
mod Refused
mod Shapes
mod Single
