-- Words of contracts of private functions and of proofs. No public contract rests on them.
pub mod Lacking
pub mod Written
pub mod Books
pub mod Found
pub mod Parted
pub mod Sayings
