pub mod Plain
pub mod Tables
pub mod Entries
pub mod Contents
pub mod Store
pub mod Failing
pub mod Texts
pub mod Inner
