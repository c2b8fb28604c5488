pub mod Parts
pub mod Checks
pub mod Entry
pub mod Seen
pub mod Text
pub mod NodeLanes
