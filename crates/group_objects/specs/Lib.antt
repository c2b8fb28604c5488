pub mod Value
pub mod Padded
pub mod Apdus
pub mod Effects
pub mod Objects
