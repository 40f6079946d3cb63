mod Chains
mod LogPlaces
mod Paces
mod Shared
pub mod cited
pub mod etcd_lemmas
