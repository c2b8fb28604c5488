pub mod Copies
pub mod Cells
