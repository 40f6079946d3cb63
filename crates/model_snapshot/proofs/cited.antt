pub mod Alone
pub mod Clients
pub mod FixedLaw
pub mod Following
pub mod SnapWorldLemmas
pub mod SureSteps
