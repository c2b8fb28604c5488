pub mod GateLemmas
pub mod Lists
pub mod Runs
pub mod TurnLemmas
