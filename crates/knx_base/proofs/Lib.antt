pub mod Causes
pub mod NumberLemmas
pub mod Printing
pub mod ShelfLemmas
mod DecimalLemmas
mod Pieces
mod AddressLemmas
pub mod Places
