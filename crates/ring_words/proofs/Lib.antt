pub mod Decimals
pub mod AlikeRows
pub mod Spelled
