-- Lemmas on plain tables, whatever the table.
pub mod Values
pub mod Maps
pub mod Ordered
pub mod Shapes
pub mod Writes
pub mod Facts
pub mod Puts
pub mod Adds
pub mod Queries
pub mod Drops
pub mod Unchanged
pub mod Creates
pub mod Updates
