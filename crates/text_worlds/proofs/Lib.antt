mod GrowthLemmas
mod RecordedLemmas
mod TranscriptLemmas
pub mod cited
pub mod desk_lemmas
