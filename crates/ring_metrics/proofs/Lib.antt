pub mod Resting
pub mod Measuring
pub mod Joined
pub mod Ending
pub mod Locking
