-- Words of contracts of private functions and of proofs. No public contract rests on them.
pub mod Says
pub mod Parts
