pub mod Rebalance
pub mod Apart
pub mod Made
pub mod Seeded
pub mod First
pub mod Inner
