pub mod Made
pub mod Opened
pub mod Closed
pub mod Unopened
pub mod Texts
pub mod Inner
