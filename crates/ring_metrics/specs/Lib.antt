pub mod Locks
pub mod Inner
pub mod Measures
pub mod Metrics
