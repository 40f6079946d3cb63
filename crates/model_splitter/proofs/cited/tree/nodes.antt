pub mod ConsistentKept
pub mod TreeLaw
pub mod WalkerLemmas
