pub mod Fields
pub mod Audiences
pub mod Requests
pub mod Inner
pub mod Answers
