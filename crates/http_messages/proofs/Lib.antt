pub mod FieldLemmas
pub mod NumberLemmas
pub mod RequestLemmas
pub mod OneRequest
pub mod Digits
pub mod FixedAnswers
