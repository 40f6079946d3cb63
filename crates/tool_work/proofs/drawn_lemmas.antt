pub mod Common
pub mod ShortReplies
pub mod ResultLemmas
pub mod UnderWayLemmas
pub mod ScheduleLemmas
pub mod RunLemmas
