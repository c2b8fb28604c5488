pub mod Octet
pub mod Cipher
pub mod Words
pub mod Modes
