pub mod SealingLemmas
