pub mod Runs
pub mod Hands
pub mod DrawnRanks
pub mod TierOrder
pub mod AllApart
