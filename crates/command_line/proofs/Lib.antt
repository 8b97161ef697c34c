pub mod Adding
pub mod Tasks
