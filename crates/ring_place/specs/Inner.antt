-- Words of contracts of private functions and of proofs. No public contract rests on them.
pub mod Finishing
pub mod Gathering
pub mod Placing
pub mod Rows
pub mod SeatRows
