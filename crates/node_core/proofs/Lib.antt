mod Starting
mod Keeping
mod Entitled
mod Causes
pub mod Firsts
mod Raising
mod Acting
