pub mod RingRows
pub mod FirstRows
pub mod OwnTexts
pub mod Stands
pub mod Callers
pub mod Differences
pub mod Judging
pub mod Inner
