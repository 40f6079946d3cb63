pub mod Form
pub mod Access
pub mod Standing
pub mod State
pub mod Row
pub mod Still
pub mod Page
pub mod Shown
