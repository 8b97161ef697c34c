-- What is known of each table, and what the statements on it mean.
pub mod Keys
pub mod Facts
pub mod Lists
pub mod Texts
pub mod Placed
