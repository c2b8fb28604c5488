pub mod FailingNvm
pub mod Gate
pub mod LastWrite
pub mod Nvm
pub mod Piece
pub mod Plan
pub mod SimNvm
pub mod Write
