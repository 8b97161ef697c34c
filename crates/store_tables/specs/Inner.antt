-- Words of contracts of private functions and of proofs. No public contract rests on them.
pub mod Told
pub mod Rows
pub mod Texts
pub mod Making
pub mod Writing
pub mod Shown
pub mod Matching
