pub mod Draws
pub mod Order
pub mod Hand
pub mod Deal
pub mod Inner
