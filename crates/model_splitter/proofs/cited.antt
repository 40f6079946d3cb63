pub mod DoorKept
pub mod SplitterTied
pub mod StageLemmas
pub mod VisitorAccess
pub mod WalkLemmas
pub mod grid
pub mod tree
