pub mod Hours
pub mod Listening
pub mod Connections
pub mod Inner
