pub mod RemainingDevices
pub mod NewRing
pub mod FinishedRing
pub mod DealtRing
pub mod DealtSeats
pub mod FirstApart
pub mod SettledRing
pub mod UnchangedRing
