pub mod Follows
pub mod Midstreams
pub mod OneList
