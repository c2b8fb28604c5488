pub mod SyncLemmas
pub mod SecureLemmas
pub mod SealedFrameLemmas
