pub mod NodeLemmas
pub mod RingData
pub mod StoreData
pub mod SeatCounting
pub mod Moving
pub mod SeatMoving
pub mod Hiding
pub mod Listing
