pub mod Audit
pub mod Marks
pub mod State
pub mod Text
