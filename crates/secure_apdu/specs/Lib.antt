pub mod Secure
pub mod Sync
pub mod Opening
pub mod SealedFrame
