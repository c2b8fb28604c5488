pub mod Fields
pub mod Frames
pub mod Faults
pub mod Reading
pub mod Law
pub mod Writing
