pub mod Entries
pub mod Contents
pub mod Changes
pub mod Pages
