pub mod Lists
pub mod Orders
pub mod Taken
pub mod Rounds
pub mod Ordered
pub mod AllDealt
pub mod Apart
