pub mod Spelling
pub mod Records
pub mod Places
