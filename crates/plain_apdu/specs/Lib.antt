pub mod Tpci
pub mod Service
pub mod Apdu
