-- Words of contracts of private functions and of proofs. No public contract rests on them.
pub mod Asked
pub mod Forms
pub mod Founding
pub mod Pages
pub mod Showing
pub mod Tellings
pub mod Until
