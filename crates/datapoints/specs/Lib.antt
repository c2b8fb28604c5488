pub mod Names
pub mod Values
pub mod Texts
pub mod Parsing
pub mod Apdus
pub mod Shown
pub mod Types
