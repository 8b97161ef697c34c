pub mod CountLemmas
pub mod InTurnLemmas
pub mod KnownLemmas
pub mod ServedLemmas
