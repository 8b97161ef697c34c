pub mod Holdings
pub mod Foretelling
