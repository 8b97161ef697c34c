pub mod Pieces
pub mod StreamFault
pub mod Counted
pub mod Writing
pub mod InTurn
pub mod Serving
