pub mod Common
pub mod PageLemmas
pub mod TagLemmas
