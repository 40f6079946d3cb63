pub mod SlotsKeep
