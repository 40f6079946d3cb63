mod Acquiring
mod Balanced
mod CallLemmas
mod Common
mod Counts
mod IndexLemmas
mod LocalityLemmas
mod RosterLemmas
mod Seeking
mod SoughtLemmas
mod StayOfLemmas
mod Tied
pub mod cited
pub mod slots_lemmas
pub mod stays_lemmas
