-- records as a whole
pub mod Migration
pub mod Rows
pub mod Gathered
pub mod Stages
pub mod OneVerdict
pub mod Transcribing
pub mod Recording
pub mod Migrated
