pub mod Shapes
pub mod Tasks
pub mod Inner
