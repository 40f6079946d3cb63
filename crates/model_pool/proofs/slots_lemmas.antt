pub mod Common
pub mod SlotLemmas
pub mod TokenLemmas
