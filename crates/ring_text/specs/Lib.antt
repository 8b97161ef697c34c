pub mod Snapshot
pub mod Spelling
pub mod Stops
pub mod Inner
