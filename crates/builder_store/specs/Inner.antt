-- Words of contracts of private functions and of proofs. No public contract rests on them.
pub mod Answering
pub mod Codes
pub mod Begins
pub mod Bound
pub mod Faults
pub mod Finding
pub mod Gains
pub mod Known
pub mod Leaves
pub mod Opened
pub mod Tables
pub mod Sets
pub mod Reading
