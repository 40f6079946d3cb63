-- rounds over the snapshot object, step by step
pub mod Views
pub mod Standing
pub mod Snapping
pub mod Tied
pub mod Stepping
pub mod Keeping
pub mod Beginning
pub mod StepCases
pub mod Shown
pub mod Beginners
