pub mod Keys
pub mod Permuted
