pub mod Cards
pub mod Load
pub mod Places
pub mod Rows
pub mod Free
pub mod Inner
pub mod Search
pub mod Steps
