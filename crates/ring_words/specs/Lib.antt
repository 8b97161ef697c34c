pub mod Limits
pub mod Kinds
pub mod Texts
pub mod Rows
pub mod Spelling
pub mod Inner
