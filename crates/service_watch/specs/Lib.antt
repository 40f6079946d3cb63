pub mod durations
pub mod Page
pub mod Answer
