pub mod Want
pub mod Room
pub mod Crowd
pub mod Figures
pub mod Near
pub mod Tiers
pub mod Codes
pub mod Inner
