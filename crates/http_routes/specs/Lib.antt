pub mod Routes
pub mod Queries
pub mod Targets
pub mod Faults
pub mod Inner
