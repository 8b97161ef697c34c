pub mod Lines
pub mod Answers
pub mod Serving
pub mod Inner
