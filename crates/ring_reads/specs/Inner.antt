-- Words of contracts of private functions and of proofs. No public contract rests on them.
pub mod SeatCounts
pub mod Lists
pub mod Behind
pub mod Counted
