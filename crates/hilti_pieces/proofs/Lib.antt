pub mod PieceExamples
pub mod PieceLoop
pub mod Splits
