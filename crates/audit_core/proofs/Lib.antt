pub mod Knowing
pub mod Lanes
pub mod Exchanging
