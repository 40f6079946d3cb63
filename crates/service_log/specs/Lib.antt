pub mod Appends
pub mod Causes
pub mod Groups
pub mod GroupState
pub mod Places
pub mod ReplicaState
pub mod Replicas
pub mod etcd
