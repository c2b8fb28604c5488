mod Firsts
mod Adding
mod TextLemmas
pub mod Unique
pub mod KeyOrder
mod Indexing
mod KeySets
mod Searching
mod RoleLaws
mod Looking
mod Merging
pub mod Standing
pub mod LaneOrder
pub mod NamedLanes
pub mod SortedLanes
pub mod SendersLanes
mod TextOnce
mod FewSteps
