pub mod LineLemmas
pub mod MidwayLemmas
