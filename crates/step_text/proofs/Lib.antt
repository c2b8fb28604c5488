pub mod Marked
pub mod Pieces
