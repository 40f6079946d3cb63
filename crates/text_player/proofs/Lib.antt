mod Common
mod FirstLineLemmas
mod GoesOnLemmas
mod PlayedLemmas
mod RecordedLemmas
pub mod SaysLemmas
pub mod StandsLemmas
pub mod cited
