pub mod Known
pub mod Replicated
pub mod Settled
pub mod Holding
pub mod Published
pub mod Joined
pub mod Sharing
pub mod etcd
