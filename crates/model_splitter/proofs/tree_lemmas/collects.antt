-- the order of nodes, and the reads of a collect
pub mod Climbing
pub mod OrderLemmas
pub mod OpenLemmas
