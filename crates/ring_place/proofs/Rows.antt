pub mod SeatRows
pub mod WrittenRows
pub mod WrittenSeats
pub mod RowFronts
pub mod OneWrite
pub mod LiftedSeats
pub mod RingSeats
pub mod IndexRanges
