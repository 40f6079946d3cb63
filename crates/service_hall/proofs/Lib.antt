mod Common
mod DeskLemmas
mod Logging
mod RebuiltLemmas
mod RowLemmas
mod TokenLemmas
mod Staying
pub mod cited
