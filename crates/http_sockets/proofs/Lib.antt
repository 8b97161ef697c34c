pub mod Joined
pub mod Chains
pub mod Talks
