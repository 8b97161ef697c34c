pub mod Faults
pub mod FileTexts
pub mod MadeClosed
