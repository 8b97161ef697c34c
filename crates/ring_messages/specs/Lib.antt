pub mod Reads
pub mod Fields
pub mod Objects
pub mod Words
pub mod Commands
pub mod Message
pub mod Replies
pub mod Inner
