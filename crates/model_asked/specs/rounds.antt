pub mod Proposals
pub mod Rounds
