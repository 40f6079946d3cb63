pub mod DeskWorldProofs
pub mod IsTranscriptProofs
pub mod OneTranscriptProofs
pub mod VisitProofs
pub mod WorldRuns
pub mod desk
