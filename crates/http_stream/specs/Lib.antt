pub mod Streams
pub mod Answers
pub mod Serving
pub mod Inner
