pub mod Told
pub mod Book
pub mod Reads
pub mod Foretold
