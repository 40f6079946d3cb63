mod Common
mod ConfigLemmas
mod AskLemmas
mod HostLemmas
mod ReadLemmas
mod CheckLemmas
mod MigrateLemmas
mod ShowLemmas
pub mod drawn_lemmas
pub mod page_lemmas
