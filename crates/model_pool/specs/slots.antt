pub mod SlotsState
pub mod SlotCalls
pub mod Slots
pub mod SlotsObject
pub mod Law
pub mod Machine
pub mod Laws
pub mod Tokens
